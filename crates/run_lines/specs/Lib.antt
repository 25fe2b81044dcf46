pub mod Texts
pub mod Grammar
pub mod Fields
pub mod CoreLines
pub mod StepLines
pub mod Lines
