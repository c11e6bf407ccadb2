pub mod Ending
pub mod Keeping
pub mod Leaving
pub mod Remaking
pub mod Replaying
pub mod Running
pub mod Mapping
