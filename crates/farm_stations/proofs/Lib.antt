pub mod AcceptedLemmas
pub mod HandLemmas
pub mod LeftLemmas
pub mod RunLemmas
pub mod StationLemmas
pub mod UnlistedLemmas
