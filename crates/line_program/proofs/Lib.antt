pub mod FirstFaultyLemmas
pub mod LinesLemmas
pub mod PieceLemmas
pub mod ProgramLemmas
pub mod ReportLemmas
