pub mod CheckLaws
pub mod Connection
pub mod Full
pub mod Listed
pub mod Question
pub mod Replied
pub mod Step
