pub mod Drawn
pub mod Parts
pub mod Built
pub mod ValidLaws
