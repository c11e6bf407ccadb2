pub mod RegionLemmas
pub mod RegionSteps
pub mod LentSteps
