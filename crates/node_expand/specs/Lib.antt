pub mod Plannable
pub mod Expansion
pub mod Shown
pub mod PathSystems
pub mod Settled
pub mod Reaching
pub mod Climbs
