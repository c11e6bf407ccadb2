pub mod Bottom
pub mod Laws
