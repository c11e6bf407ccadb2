mod Working
mod OnEmpty
pub mod Known
pub mod Parts
