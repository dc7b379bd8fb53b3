pub mod Addresses
pub mod Warnings
pub mod Keys
