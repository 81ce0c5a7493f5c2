pub mod Meanings
pub mod Narrowing
pub mod Parts
pub mod Printed
pub mod Workers
pub mod Drilled
pub mod Completed
