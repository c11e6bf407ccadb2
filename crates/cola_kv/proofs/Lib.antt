mod Refusing
pub mod Moved
pub mod Answered
pub mod Listing
pub mod Carried
pub mod Ranging
pub mod Openings
pub mod Falling
pub mod Beginning
pub mod Prefixed
mod Worked
