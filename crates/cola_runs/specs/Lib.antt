pub mod Cells
pub mod Seen
pub mod Weave
pub mod Steps
pub mod Search
