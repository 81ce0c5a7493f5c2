pub mod Logs
pub mod Following
pub mod Recording
pub mod Reading
pub mod Texts
pub mod Laws
