pub mod Motion
pub mod Timetable
pub mod Legal
pub mod Run
