pub mod Chain
pub mod Sound
pub mod Alike
pub mod Mutation
pub mod Plain
pub mod Slots
