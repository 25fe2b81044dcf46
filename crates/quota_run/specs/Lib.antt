pub mod Hand
pub mod Answers
pub mod Run
pub mod Lines
pub mod Program
