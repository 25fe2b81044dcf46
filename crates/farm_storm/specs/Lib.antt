pub mod Deeds
pub mod Places
pub mod Storm
pub mod Summary
