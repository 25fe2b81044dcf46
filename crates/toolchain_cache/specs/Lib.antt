pub mod Archives
pub mod Archiving
pub mod Keyed
pub mod Stored
pub mod Cleaned
