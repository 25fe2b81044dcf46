pub mod Became
pub mod CallLemmas
pub mod Distinct
pub mod Exactly
pub mod Lookups
pub mod Parts
pub mod Removals
