pub mod Short
pub mod Contexts
pub mod Crossable
pub mod Code
pub mod Crossed
