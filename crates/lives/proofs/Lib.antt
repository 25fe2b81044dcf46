pub mod GivenLemmas
pub mod TurnLemmas
pub mod OnceLemmas
pub mod SpentLemmas
pub mod LifeLemmas
pub mod ProgramLemmas
