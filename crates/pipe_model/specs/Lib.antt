pub mod Pipeline
pub mod Begun
pub mod Shown
pub mod Finding
pub mod Headline
