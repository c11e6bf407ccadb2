pub mod PageLemmas
pub mod MarkedLemmas
mod Examples
