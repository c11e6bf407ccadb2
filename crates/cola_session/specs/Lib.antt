pub mod Reading
pub mod Ends
pub mod Home
pub mod Memory
