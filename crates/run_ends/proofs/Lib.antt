pub mod OpenedLemmas
pub mod SettledLemmas
pub mod ShuttingLemmas
pub mod TakenBackLemmas
