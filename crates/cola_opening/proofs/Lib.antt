pub mod Sizes
pub mod Spending
mod Apart
