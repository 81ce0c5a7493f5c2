pub mod Grown
pub mod Counted
pub mod Kept
pub mod Searched
pub mod Laws
pub mod QuestionLemmas
pub mod ExpansionLemmas
