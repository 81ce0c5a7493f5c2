pub mod Sweep
pub mod Claims
pub mod Laws
pub mod SweepText
pub mod Paces
pub mod Shown
