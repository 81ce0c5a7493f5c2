pub mod Depth
pub mod Asked
pub mod Laws
