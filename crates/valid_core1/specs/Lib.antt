pub mod Forms
pub mod Scopes
pub mod Checks
pub mod Short
pub mod Constants
pub mod Sections
pub mod Parts
pub mod Verdict
