pub mod NumberLemmas
pub mod HandLemmas
pub mod UnspentLemmas
pub mod AllocLemmas
pub mod CallLemmas
pub mod RunLemmas
pub mod LineLemmas
pub mod ProgramLemmas
