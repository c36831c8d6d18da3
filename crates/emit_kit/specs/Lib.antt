pub mod Built
pub mod FirstTypes
pub mod Counted
