pub mod TimetableData
pub mod PartsData
pub mod Stretch
pub mod Numbers
pub mod FitTests
pub mod Faults
