pub mod Picked
pub mod Changes
pub mod Registrations
pub mod Most
pub mod Books
pub mod LogRoom
