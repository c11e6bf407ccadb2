pub mod Applied
pub mod Format
