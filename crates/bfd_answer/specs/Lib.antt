pub mod Answer
pub mod Good
pub mod Crossing
