pub mod BookingLemmas
pub mod ByIdLemmas
pub mod OwnPlaceLemmas
pub mod OwnRowLemmas
