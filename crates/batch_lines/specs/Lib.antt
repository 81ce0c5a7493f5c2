pub mod Batch
pub mod Parts
pub mod Laws
pub mod OneLemmas
