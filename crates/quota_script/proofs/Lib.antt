pub mod ClientLemmas
pub mod LineLemmas
pub mod FirstFaultyLemmas
pub mod SpelledLemmas
