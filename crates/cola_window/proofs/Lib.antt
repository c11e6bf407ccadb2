pub mod Fronts
pub mod Going
pub mod Taking
pub mod Merging
pub mod Sought
pub mod Stopping
