pub mod Order
pub mod Sets
pub mod AtKey
pub mod InOrder
pub mod Woven
pub mod Counts
pub mod Cuts
pub mod Stepping
pub mod Builds
pub mod Samples
pub mod Searches
mod Worked
pub mod Deciding
