pub mod Lending
pub mod Mapped
pub mod Region
