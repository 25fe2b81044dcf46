pub mod BearerLemmas
pub mod CutLemmas
pub mod FieldLemmas
pub mod HeadLemmas
pub mod LineLemmas
pub mod OpeningLemmas
pub mod ReplyLemmas
pub mod WrittenRequestLemmas
