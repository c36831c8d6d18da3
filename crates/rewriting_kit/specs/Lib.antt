pub mod Rewrites
pub mod Fitting
pub mod Plainly
pub mod Lines
pub mod Moving
pub mod Mappedly
pub mod Inserting
