pub mod Pushed
pub mod KeyOfType
pub mod Telling
pub mod Adding
pub mod Imports
pub mod Found
pub mod Told
