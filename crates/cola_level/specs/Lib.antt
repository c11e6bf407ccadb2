pub mod Marks
pub mod Aims
pub mod Standing
pub mod Work
pub mod Built
pub mod Works
pub mod Laws
pub mod Calls
