pub mod NodeLemmas
pub mod SplitLemmas
pub mod OrderLemmas
pub mod PathLemmas
