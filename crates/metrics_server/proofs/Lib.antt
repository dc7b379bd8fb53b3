pub mod Heads
pub mod Heard
pub mod Joined
pub mod Paths
