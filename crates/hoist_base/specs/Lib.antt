pub mod Limits
pub mod LineData
pub mod Valid
pub mod Firsts
pub mod Flaws
pub mod Routes
pub mod PartsData
pub mod Ranges
