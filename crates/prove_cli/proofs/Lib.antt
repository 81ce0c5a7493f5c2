pub mod Claims
pub mod Meanings
pub mod Unsearched
