pub mod Reasons
pub mod Samples
pub mod Families
pub mod Example
