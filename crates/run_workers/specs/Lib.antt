pub mod Shares
pub mod Kits
