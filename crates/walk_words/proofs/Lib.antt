pub mod Exact
pub mod Texts
pub mod Named
