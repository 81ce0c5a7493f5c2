pub mod Choices
pub mod Rows
pub mod Bounds
pub mod Rides
pub mod Agreement
pub mod Holding
pub mod Legality
pub mod PlanData
