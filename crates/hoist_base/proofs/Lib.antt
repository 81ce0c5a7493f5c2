pub mod Firsts
pub mod FlawLemmas
pub mod RouteLemmas
pub mod NumberLemmas
pub mod SingleLemmas
