pub mod Audited
pub mod Command
