pub mod Geometry
pub mod Place
pub mod Cells
pub mod Marks
pub mod Header
pub mod Fields
pub mod Read
