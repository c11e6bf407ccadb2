pub mod Contents
pub mod Account
pub mod Runs
pub mod Steps
pub mod Files
pub mod Laws
