pub mod Told
pub mod Among
pub mod Blocks
pub mod Header
pub mod Writes
pub mod Steps
pub mod Whole
