pub mod PacketLemmas
pub mod CrossingLemmas
pub mod Example
