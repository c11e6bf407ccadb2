pub mod Keys
pub mod Commands
pub mod Turns
pub mod Answered
