pub mod Kind
pub mod Reach
