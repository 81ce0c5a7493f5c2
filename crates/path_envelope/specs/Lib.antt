pub mod Duties
pub mod FirstClash
pub mod Envelope
pub mod Rows
pub mod Slots
