pub mod Code
pub mod Modules
pub mod States
pub mod Crossing
pub mod Interfaces
pub mod InStep
