pub mod Fields
pub mod Path
pub mod Fault
pub mod InPlace
pub mod Reversed
