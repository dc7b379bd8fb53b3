pub mod NumberLemmas
pub mod ShownLemmas
