pub mod AppliedLemmas
pub mod JournalLemmas
pub mod ReadLemmas
