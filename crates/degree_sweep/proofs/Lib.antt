pub mod PaceLemmas
pub mod RowLemmas
