pub mod Words
pub mod Escape
pub mod Forms
