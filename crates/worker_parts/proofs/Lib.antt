pub mod Marks
pub mod Telling
pub mod Sending
pub mod EndLemmas
pub mod RoomLemmas
pub mod BackLemmas
pub mod UsedLemmas
pub mod SameLemmas
