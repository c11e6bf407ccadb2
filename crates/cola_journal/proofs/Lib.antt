mod Examples
pub mod Kept
pub mod Told
