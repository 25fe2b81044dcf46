pub mod RunLines
pub mod Fit
