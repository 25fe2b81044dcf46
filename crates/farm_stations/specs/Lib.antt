pub mod Hands
pub mod Left
pub mod Lined
pub mod Post
pub mod Stations
pub mod Unlisted
