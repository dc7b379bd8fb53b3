pub mod Checksum
pub mod Message
pub mod WayBack
pub mod Reply
pub mod Outcome
pub mod Unanswered
pub mod Telling
