pub mod OfTable
pub mod CutOff
pub mod Leading
pub mod Sessions
pub mod Joined
pub mod ReadingOn
pub mod InMemory
pub mod InMemoryTurns
