pub mod Answers
pub mod Route
