pub mod Erasing
pub mod Lawfulness
pub mod LeafTyped
pub mod Leaving
pub mod Modules
pub mod Refilled
