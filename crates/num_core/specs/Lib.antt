pub mod Accesses
pub mod Integers
pub mod Bytes
