pub mod Alike
pub mod Tests
pub mod Verdict
