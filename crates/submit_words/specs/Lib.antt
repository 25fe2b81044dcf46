pub mod Misuse
pub mod Options
pub mod Views
pub mod Words
pub mod Refusals
pub mod Status
pub mod Heads
