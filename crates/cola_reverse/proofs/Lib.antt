pub mod Turned
pub mod Falls
mod Worked
pub mod Over
mod Back
