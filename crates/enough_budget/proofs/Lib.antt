pub mod AgainLemmas
pub mod NearLemmas
pub mod ShiftLemmas
pub mod ListLemmas
pub mod ListedLemmas
pub mod PathLemmas
