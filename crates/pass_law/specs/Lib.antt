pub mod Stages
pub mod Needs
pub mod Hosts
pub mod Views
pub mod Plans
pub mod Law
pub mod ThenLawful
pub mod Plain
