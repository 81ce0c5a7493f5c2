pub mod Limits
pub mod Words
pub mod Fields
pub mod Nodes
pub mod Tables
pub mod Answers
