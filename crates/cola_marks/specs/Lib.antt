pub mod Marked
pub mod Pages
