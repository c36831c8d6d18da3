pub mod Asking
pub mod Nodes
pub mod Shifts
pub mod Typed
