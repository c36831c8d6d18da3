pub mod Cuts
pub mod Loops
pub mod LaneRanges
pub mod Signs
pub mod Rearrangements
