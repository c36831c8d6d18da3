pub mod Calls
pub mod Causes
pub mod Held
pub mod Memory
pub mod MemoryView
pub mod Safe
pub mod SinkMemory
