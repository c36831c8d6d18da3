pub mod Outcomes
pub mod Growing
