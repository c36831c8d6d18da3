pub mod Small
pub mod Script
