pub mod Untold
pub mod Pieces
pub mod LawsLemmas
