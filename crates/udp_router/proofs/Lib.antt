mod Devices
mod Led
pub mod Pages
