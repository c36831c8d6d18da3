mod Lists
mod Running
mod Tasks
mod States
mod Operators
mod Instructions
mod Hosts
mod Functions
mod Beginning
pub mod Whole
