pub mod Searches
pub mod Parts
pub mod Verdict
pub mod Standing
pub mod Bodies
pub mod Hidden
pub mod Meaning
