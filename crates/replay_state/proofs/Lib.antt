pub mod KeptLemmas
pub mod SentLemmas
mod Counted
