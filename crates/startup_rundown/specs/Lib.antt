pub mod Picks
pub mod RunLog
pub mod Driving
pub mod Runner
pub mod LogLaws
