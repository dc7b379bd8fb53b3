pub mod EntryLemmas
pub mod IdLemmas
pub mod ListLemmas
pub mod NeighborLemmas
pub mod PortLemmas
pub mod ConfigLemmas
