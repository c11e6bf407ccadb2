pub mod Windows
pub mod Stopping
pub mod Seeking
