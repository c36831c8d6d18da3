pub mod Powers
pub mod SizedItems
pub mod Spelling
pub mod Front
pub mod TwosComplement
pub mod Text
pub mod Frames
pub mod Contents
