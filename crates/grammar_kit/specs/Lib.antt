pub mod Form
pub mod Choice
pub mod Exact
pub mod Gives
pub mod Measures
pub mod Sequences
