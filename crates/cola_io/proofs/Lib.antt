pub mod StreamLemmas
mod FailedLemmas
pub mod BufferLemmas
pub mod ReadLemmas
pub mod Going
pub mod Asking
pub mod LineLaws
