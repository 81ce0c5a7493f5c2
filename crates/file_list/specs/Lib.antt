pub mod FileList
pub mod Front
