pub mod Trees
pub mod Escapes
