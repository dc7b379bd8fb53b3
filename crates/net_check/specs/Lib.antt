pub mod Wires
pub mod Pairs
pub mod Words
