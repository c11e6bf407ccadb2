pub mod Credit
pub mod Blocks
pub mod Chain
