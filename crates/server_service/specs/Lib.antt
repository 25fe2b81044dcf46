pub mod Heartbeat
pub mod OneAnswer
pub mod Replied
pub mod Routed
pub mod Told
pub mod Workers
