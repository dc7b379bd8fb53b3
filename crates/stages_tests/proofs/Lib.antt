pub mod DatagramLemmas
pub mod EndLemmas
pub mod ShareLemmas
