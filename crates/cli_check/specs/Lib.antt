pub mod Check
pub mod Net
