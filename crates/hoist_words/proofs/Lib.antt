pub mod ReadingLemmas
pub mod RequestLemmas
pub mod WordLemmas
pub mod WalkLemmas
