pub mod PoolLemmas
pub mod Passing
pub mod ReceivingLemmas
