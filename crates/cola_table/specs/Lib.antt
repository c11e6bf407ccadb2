pub mod Terms
pub mod Answers
pub mod Replies
pub mod Flat
pub mod Walks
pub mod Slots
