pub mod Levels
pub mod Work
pub mod Ends
pub mod Standing
pub mod Steps
pub mod Laws
pub mod Calls
