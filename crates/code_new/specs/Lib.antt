pub mod Types
pub mod Immediates
pub mod Operators
pub mod Instructions
pub mod Vectors
pub mod Tokens
pub mod Code
