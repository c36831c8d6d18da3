pub mod Bodies
pub mod Shifts
pub mod Trimming
pub mod Folding
pub mod Constants
pub mod ConstantPlan
pub mod Plans
pub mod Foldable
