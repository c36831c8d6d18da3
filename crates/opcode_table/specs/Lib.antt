pub mod Accesses
pub mod Floats
pub mod Operators
