pub mod Lists
pub mod Planned
