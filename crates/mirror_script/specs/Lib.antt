pub mod Said
pub mod Grammar
pub mod Line
pub mod Place
pub mod Script
pub mod FirstFaulty
pub mod Spelled
