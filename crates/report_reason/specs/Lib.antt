pub mod Decisions
pub mod Nearest
pub mod Reason
pub mod Laws
