pub mod Bodies
pub mod Flags
pub mod Pairs
pub mod Held
pub mod Used
pub mod Exnref
pub mod Noting
