pub mod Meaning
pub mod Proved
pub mod Reply
