pub mod FirstFaulty
pub mod Grammar
pub mod Ids
pub mod Line
pub mod Place
pub mod Script
pub mod Spelled
pub mod Used
