pub mod Entry
pub mod Cut
