pub mod Values
pub mod Closed
pub mod Trail
pub mod Climb
pub mod Laws
pub mod Links
pub mod Refuting
