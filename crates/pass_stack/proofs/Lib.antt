pub mod Cut
pub mod Taken
