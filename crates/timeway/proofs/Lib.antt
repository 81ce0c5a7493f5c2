pub mod Exact
pub mod Tanks
