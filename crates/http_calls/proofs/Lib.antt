pub mod JoinLemmas
pub mod UrlLemmas
pub mod ServerLemmas
pub mod CallLemmas
pub mod PackLemmas
pub mod RefusalLemmas
pub mod RowLemmas
