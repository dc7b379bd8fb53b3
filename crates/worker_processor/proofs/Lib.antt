pub mod ExitsLemmas
pub mod UsedLemmas
pub mod WorkingLemmas
pub mod AnsweringLemmas
