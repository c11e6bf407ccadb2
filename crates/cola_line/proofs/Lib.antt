pub mod Splits
pub mod Choices
pub mod Turns
pub mod Listing
pub mod Walking
