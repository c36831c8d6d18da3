pub mod Spaces
pub mod Operands
pub mod Lengths
pub mod Code
pub mod Typing
pub mod Example
pub mod Floats
