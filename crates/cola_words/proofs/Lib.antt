pub mod Reading
pub mod Limits
mod Worked
pub mod AnyOrder
