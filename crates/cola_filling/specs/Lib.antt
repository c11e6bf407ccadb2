pub mod Loads
pub mod Lines
pub mod Grows
pub mod LoadLaws
pub mod GrowLaws
