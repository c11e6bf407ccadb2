pub mod CellsLemmas
pub mod StandingLemmas
pub mod WorkedNothing
pub mod WorkedMaps
pub mod WorkedFiles
