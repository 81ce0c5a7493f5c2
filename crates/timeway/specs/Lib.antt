pub mod Scales
pub mod Shapes
pub mod Laws
pub mod Diagram
