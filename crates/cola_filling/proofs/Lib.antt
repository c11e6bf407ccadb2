pub mod LoadedSoFar
pub mod LoadedWhole
pub mod Known
pub mod Whole
pub mod Sizes
pub mod GrowEnding
pub mod LoadSaid
pub mod GrowSaid
