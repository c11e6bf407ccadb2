pub mod FrontLemmas
pub mod Places
pub mod Stored
pub mod Image
pub mod Writes
