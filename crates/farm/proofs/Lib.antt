pub mod ScriptRunLemmas
pub mod DoneLemmas
pub mod AuditLemmas
pub mod AnswerLemmas
pub mod AuditAnswerLemmas
pub mod NeedLemmas
pub mod AuthLemmas
