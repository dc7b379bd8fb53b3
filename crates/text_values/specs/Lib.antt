pub mod Pieces
pub mod Address
pub mod Shown
pub mod Example
