pub mod Machine
pub mod Pooled
