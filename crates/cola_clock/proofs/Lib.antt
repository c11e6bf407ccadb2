mod Examples
mod Calls
pub mod Places
pub mod Laws
pub mod Wrap
pub mod Counts
pub mod Sampled
pub mod MarkLaws
