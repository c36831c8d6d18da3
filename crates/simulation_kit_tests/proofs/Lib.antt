pub mod Counting
pub mod Lowered
