pub mod Order
pub mod Index
pub mod Cache
pub mod Blocks
