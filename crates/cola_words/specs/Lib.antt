pub mod Options
pub mod Sizes
pub mod Modes
pub mod Counts
