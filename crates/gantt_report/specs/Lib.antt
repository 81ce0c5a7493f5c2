pub mod Places
pub mod Chart
pub mod DwellTable
