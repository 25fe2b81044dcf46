pub mod DigestLemmas
pub mod LimitLemmas
pub mod OneAnswerLemmas
pub mod OneRunLemmas
pub mod PeerLemmas
pub mod RanLemmas
pub mod SettledLemmas
pub mod ToldLemmas
