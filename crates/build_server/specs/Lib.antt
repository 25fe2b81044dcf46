pub mod Books
pub mod Rules
pub mod Builds
pub mod Rows
pub mod Stores
pub mod Laws
pub mod Echo
