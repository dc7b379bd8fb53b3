pub mod SessionLemmas
pub mod ReceptionLemmas
pub mod PacketLemmas
pub mod AnswerLemmas
