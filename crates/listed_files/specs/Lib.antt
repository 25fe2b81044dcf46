pub mod Arriving
pub mod Calls
pub mod Disk
pub mod Entries
pub mod Key
pub mod Opened
pub mod Told
