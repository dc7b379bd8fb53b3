pub mod Exits
pub mod Working
pub mod Answering
pub mod SameProcessor
pub mod SameSlowPath
pub mod ExitLaws
