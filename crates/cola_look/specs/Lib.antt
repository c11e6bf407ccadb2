pub mod Laws
pub mod Outcome
pub mod Runs
pub mod Scanning
pub mod Seek
pub mod Seeks
pub mod Stops
pub mod Turns
