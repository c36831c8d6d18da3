pub mod Profile
pub mod Pipeline
pub mod Texts
