pub mod Booked
pub mod Own
