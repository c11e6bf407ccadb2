pub mod BytesLemmas
pub mod ToldLemmas
pub mod CountsLemmas
pub mod SettlingLemmas
mod Examples
