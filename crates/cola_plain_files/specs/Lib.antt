pub mod Levels
pub mod File
pub mod Tests
pub mod Verdict
