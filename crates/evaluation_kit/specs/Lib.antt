pub mod Configurations
pub mod Control
pub mod Forms
pub mod Languages
pub mod Tasks
pub mod Leaves
