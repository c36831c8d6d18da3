pub mod Trees
pub mod Readings
pub mod Evaluations
pub mod Runs
pub mod Occurrences
pub mod Needs
pub mod Parts
pub mod Fitting
pub mod Keeping
pub mod Stages
pub mod Operators
pub mod Same
pub mod Constants
pub mod Replaced
pub mod SignLaw
pub mod Asking
pub mod Untagged
pub mod TrimmingKept
pub mod Mapped
pub mod TrimLaw
mod FoldedValues
mod FoldedGlobals
mod SettingGlobals
mod ConstantStart
mod ConstantRuns
mod ConstantLaw
mod ConstantFits
mod ConstantHost
mod NothingNew
mod NoConstants
mod ConstantFlow
mod MoreContext
mod FoldedTypes
mod ConstantReads
mod KnownGlobals
mod ConstantTypes
mod FoldedTyped
mod FoldedNames
mod SettingTyped
mod FoldedModule
mod FewerFeatures
mod FewerOutside
mod Weaker
mod SettingNodes
mod KnownAgain
mod CallsKept
mod RegionKept
mod ConstantTyping
mod ReferenceConstants
mod DirectGlobals
mod TypedConstants
mod LawfulConstants
mod FoldedTree
mod FoldableFrom
mod ConstantsTyped
