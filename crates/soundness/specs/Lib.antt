pub mod Events
pub mod States
pub mod Strict
pub mod Laws
