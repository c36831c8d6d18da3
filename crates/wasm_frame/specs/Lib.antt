pub mod Leb128
pub mod Signed
pub mod Name
pub mod Frame
pub mod Payloads
