pub mod Asking
pub mod Builds
pub mod Pause
pub mod Questions
pub mod Said
