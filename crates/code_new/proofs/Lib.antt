pub mod CodeForms
pub mod Leaves
pub mod Sizes
pub mod TypeForms
