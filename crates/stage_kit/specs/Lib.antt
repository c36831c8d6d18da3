pub mod Adding
pub mod Kept
pub mod Hosting
pub mod Staged
pub mod Naming
pub mod Appended
pub mod Prepared
