pub mod Adding
pub mod Moving
pub mod Read
pub mod Reliable
pub mod Reserved
pub mod Spoiling
pub mod Store
