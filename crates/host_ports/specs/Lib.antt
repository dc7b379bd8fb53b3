pub mod Layer
pub mod Quote
pub mod Port
pub mod Messages
pub mod Packets
pub mod Laws
pub mod Example
