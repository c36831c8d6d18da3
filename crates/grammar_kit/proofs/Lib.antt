pub mod Combinators
pub mod Consequences
pub mod Loop
pub mod Measuring
pub mod Sequences
