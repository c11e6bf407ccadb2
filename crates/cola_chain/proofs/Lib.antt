pub mod LevelLists
pub mod Account
pub mod Headers
pub mod Searching
pub mod Beginning
pub mod Stepping
