pub mod FirstFaultyLemmas
pub mod IdLemmas
pub mod LineLemmas
pub mod MatchLemmas
pub mod SpelledLemmas
pub mod UsedLemmas
