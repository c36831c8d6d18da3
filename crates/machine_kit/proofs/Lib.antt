mod Calling
mod Closes
mod Closing
mod Entering
mod Instructions
mod Moves
mod Passing
mod Spending
mod Views
pub mod Done
pub mod Laws
pub mod Stretching
