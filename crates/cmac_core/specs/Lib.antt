pub mod Block
pub mod Cmac
