pub mod Steps
pub mod Sites
pub mod LinesAsOne
pub mod Program
