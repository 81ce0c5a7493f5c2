pub mod Sizes
pub mod WorkedNumbers
