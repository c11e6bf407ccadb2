pub mod Apart
pub mod Known
