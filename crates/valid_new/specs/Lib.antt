pub mod Groups
pub mod Annotated
pub mod Bodies
pub mod Nested
pub mod Nodes
pub mod Scopes
pub mod Judged
