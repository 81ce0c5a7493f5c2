pub mod PartLemmas
pub mod BatchLemmas
