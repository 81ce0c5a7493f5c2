pub mod Ticks
pub mod Figures
pub mod Shares
pub mod Numbers
pub mod Laws
