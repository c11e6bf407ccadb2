pub mod Lists
pub mod Weaving
pub mod Setting
