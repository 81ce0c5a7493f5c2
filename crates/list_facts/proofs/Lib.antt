pub mod Elements
pub mod Products
