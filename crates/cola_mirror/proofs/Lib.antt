pub mod CallLemmas
pub mod SettledLemmas
pub mod SoundLemmas
pub mod DifferLemmas
pub mod ComparedLemmas
pub mod RebuildLemmas
pub mod WholeLemmas
mod Examples
pub mod RebuildSaid
