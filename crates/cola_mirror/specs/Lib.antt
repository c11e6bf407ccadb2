pub mod Sides
pub mod Mirror
pub mod Told
pub mod Device
pub mod Settled
pub mod Differ
pub mod Rebuild
pub mod RebuildLaws
