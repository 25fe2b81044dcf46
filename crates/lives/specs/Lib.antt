pub mod Lives
pub mod Text
pub mod Program
