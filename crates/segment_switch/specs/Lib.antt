pub mod Pairs
pub mod Switch
