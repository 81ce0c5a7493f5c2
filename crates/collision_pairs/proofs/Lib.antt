pub mod TickLemmas
pub mod HullLemmas
pub mod CornerLemmas
pub mod MotionLemmas
pub mod ForbiddenLemmas
pub mod ClashLemmas
