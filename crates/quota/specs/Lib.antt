pub mod Clients
pub mod Quota
pub mod Asked
pub mod Holdings
pub mod Kept
pub mod Calls
