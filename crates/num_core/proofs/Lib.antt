pub mod Shifts
pub mod Ranges
pub mod Turns
