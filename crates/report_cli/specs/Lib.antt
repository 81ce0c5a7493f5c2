pub mod Drawn
pub mod Reply
pub mod Meaning
