pub mod Shapes
pub mod Lanes
pub mod LaneNumbers
pub mod Rearranging
pub mod Operators
pub mod Memory
pub mod Rows
