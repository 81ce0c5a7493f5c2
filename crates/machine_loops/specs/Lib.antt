pub mod Loops
pub mod RuleTests
pub mod Lists
pub mod Reading
pub mod Looped
