pub mod Drops
pub mod Promises
