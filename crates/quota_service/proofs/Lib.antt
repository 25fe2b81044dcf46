pub mod ListedLemmas
pub mod QuestionLemmas
pub mod ReserveLemmas
pub mod SpentLemmas
pub mod StepLemmas
pub mod WholeLemmas
