pub mod Changes
pub mod Marks
pub mod Narrowing
pub mod Replies
