pub mod Runs
pub mod Copied
pub mod Upgrade
