pub mod Claimed
pub mod AcceptedLemmas
pub mod OneLemmas
pub mod SolvedLemmas
