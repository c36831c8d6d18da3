pub mod Loops
pub mod Vectors
