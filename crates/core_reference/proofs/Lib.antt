pub mod IndexLemmas
pub mod PlainLemmas
pub mod SignLemmas
