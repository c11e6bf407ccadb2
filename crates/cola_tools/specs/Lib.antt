pub mod Shown
pub mod New
pub mod Checking
pub mod Growing
pub mod Loading
