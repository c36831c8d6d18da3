pub mod Adding
pub mod Lists
pub mod Modules
pub mod OneAnswer
pub mod Passed
pub mod Sized
pub mod Texts
