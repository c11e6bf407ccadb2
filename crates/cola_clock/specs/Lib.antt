pub mod Clock
pub mod Schedule
pub mod Marks
