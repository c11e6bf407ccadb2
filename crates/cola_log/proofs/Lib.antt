pub mod Appending
pub mod Cutting
pub mod Passing
pub mod Records
pub mod Spelling
