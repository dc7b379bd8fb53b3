pub mod Rows
pub mod Opened
pub mod TakenBack
pub mod Settled
pub mod Finished
pub mod Shutting
