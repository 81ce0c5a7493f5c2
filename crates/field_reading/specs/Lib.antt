pub mod Reading
pub mod Reads
pub mod Gives
pub mod Fronts
pub mod Laws
