pub mod Inside
pub mod Ended
mod Unwritten
pub mod Telling
pub mod TellingRows
pub mod TellingBytes
pub mod ToolsTold
mod Started
pub mod ToldBack
pub mod Pieces
pub mod Staying
pub mod FewMarked
pub mod Placing
pub mod LoadValues
pub mod LoadsTold
pub mod LoadInside
mod Saved
mod SavedRuns
pub mod PrefixesTold
