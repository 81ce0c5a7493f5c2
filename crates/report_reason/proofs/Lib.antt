pub mod Paths
pub mod Setting
pub mod Shown
pub mod Sections
