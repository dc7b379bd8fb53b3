pub mod ProducerLemmas
