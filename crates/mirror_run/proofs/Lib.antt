pub mod StepLemmas
pub mod ProgramLemmas
pub mod SiteLemmas
pub mod LinesAsOneLemmas
