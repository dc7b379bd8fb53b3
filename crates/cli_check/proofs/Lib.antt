pub mod NetLemmas
