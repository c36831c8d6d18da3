pub mod Small
pub mod Lowering
