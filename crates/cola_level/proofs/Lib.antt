pub mod Stepping
pub mod Finishing
pub mod Writing
pub mod Outcomes
pub mod Sources
pub mod Parities
pub mod Turns
