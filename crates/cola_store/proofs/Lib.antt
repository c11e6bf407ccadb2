pub mod Filled
pub mod Marking
pub mod Closed
pub mod Storing
pub mod Putting
pub mod States
pub mod Rising
pub mod Walking
mod Whole
pub mod OpenLaws
pub mod Falling
mod Filling
