pub mod Agreement
pub mod Depths
pub mod Forms
pub mod Imports
pub mod Measured
pub mod Owed
pub mod Told
pub mod TypeSizes
