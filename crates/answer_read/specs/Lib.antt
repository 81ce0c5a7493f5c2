pub mod Lines
pub mod Trees
pub mod Tables
pub mod Parts
pub mod Answers
pub mod Same
