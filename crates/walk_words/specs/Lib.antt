pub mod Places
pub mod Steps
pub mod Periods
pub mod Walks
pub mod Laws
