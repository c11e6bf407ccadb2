pub mod Slots
pub mod Places
pub mod FlatMap
pub mod Ranges
