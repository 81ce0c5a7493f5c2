pub mod RowLemmas
pub mod OrderLemmas
pub mod JoinLemmas
pub mod WriteLemmas
