pub mod Opening
pub mod Handle
pub mod Work
pub mod Laws
