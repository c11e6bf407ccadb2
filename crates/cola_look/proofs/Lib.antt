pub mod KeyLemmas
pub mod Looking
pub mod RunLists
pub mod TurnLemmas
pub mod SeekLemmas
pub mod Seats
pub mod ScanLemmas
pub mod Sights
