pub mod OrderLemmas
pub mod CacheLemmas
pub mod ChainLemmas
pub mod IndexLemmas
pub mod BlocksLemmas
