pub mod Limits
pub mod Numbers
pub mod Padding
pub mod Parts
pub mod Reading
pub mod RoomWords
pub mod Unique
pub mod Words
mod Worked
pub mod Writing
pub mod PlaceNumbers
pub mod FlatLemmas
pub mod CostsLemmas
pub mod RunLemmas
pub mod DecodedLemmas
pub mod KeyWords
pub mod Packs
pub mod CellLists
pub mod ToldRuns
mod Standing
