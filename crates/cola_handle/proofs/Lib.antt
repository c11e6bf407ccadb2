pub mod Values
pub mod Openings
pub mod Rows
pub mod Filling
pub mod Making
pub mod Turns
mod Storing
pub mod Dividing
pub mod Turned
pub mod Taking
pub mod Marking
pub mod Lending
pub mod FewMarks
pub mod Between
