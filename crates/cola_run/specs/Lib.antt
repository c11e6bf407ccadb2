pub mod Cells
pub mod Store
pub mod Parts
pub mod Turns
pub mod Saving
pub mod Loading
pub mod Calls
pub mod Weaving
