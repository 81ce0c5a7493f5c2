pub mod Field
pub mod Numbers
pub mod SignedNumbers
pub mod Words
pub mod Items
pub mod Loops
pub mod Wholes
