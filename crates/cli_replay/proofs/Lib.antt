pub mod GatheredLemmas
pub mod ReplayLemmas
