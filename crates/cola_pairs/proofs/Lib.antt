pub mod Order
pub mod Entries
pub mod LivePairs
pub mod Onward
mod Worked
