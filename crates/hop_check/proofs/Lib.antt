pub mod BeaconingLemmas
pub mod BlockLemmas
pub mod InputLemmas
pub mod ExactLemmas
pub mod MacLemmas
