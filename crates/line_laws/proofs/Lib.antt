pub mod WholeLemmas
pub mod RunLemmas
