pub mod Nodes
pub mod Twins
pub mod Counts
pub mod Lengths
pub mod Back
