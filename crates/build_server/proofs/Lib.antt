pub mod TableLemmas
pub mod ListLemmas
pub mod StoreLemmas
pub mod TakeLemmas
pub mod LawLemmas
