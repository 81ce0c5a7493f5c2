pub mod Commands
pub mod Forms
pub mod Found
pub mod Laws
pub mod Request
pub mod Table
