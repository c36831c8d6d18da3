pub mod Sights
pub mod Passing
pub mod Composing
pub mod ThenLaw
pub mod Twins
pub mod Simulated
pub mod Plain
