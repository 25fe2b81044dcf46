pub mod PlaceLemmas
pub mod RunLengthLemmas
pub mod StormLemmas
pub mod CountLemmas
pub mod RequestLemmas
