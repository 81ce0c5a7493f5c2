pub mod Texts
pub mod Parts
pub mod Timeway
pub mod Page
