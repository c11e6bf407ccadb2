pub mod Find
pub mod Finds
