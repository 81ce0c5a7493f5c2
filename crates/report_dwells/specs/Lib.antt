pub mod Cells
pub mod Windows
pub mod Dwells
