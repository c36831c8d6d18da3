pub mod Marks
pub mod InFront
pub mod Passing
pub mod Deciding
pub mod Decided
pub mod Decided1
