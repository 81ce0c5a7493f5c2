pub mod CarryLaw
pub mod Adding
