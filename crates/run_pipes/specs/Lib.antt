pub mod Piping
pub mod Pipes
pub mod Rest
pub mod Filling
pub mod Handing
pub mod Closing
