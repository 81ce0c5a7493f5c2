pub mod Fields
pub mod Values
pub mod Tables
pub mod Flaws
pub mod File
pub mod Names
pub mod Refusal
pub mod Written
