pub mod AddressLemmas
pub mod ListLemmas
