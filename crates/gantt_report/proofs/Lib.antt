pub mod Rows
pub mod Marking
pub mod CarryLaw
pub mod Cells
