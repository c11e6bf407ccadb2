pub mod Bytes
pub mod Counts
pub mod Memory
pub mod Settling
