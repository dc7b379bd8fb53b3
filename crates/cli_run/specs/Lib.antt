pub mod Command
pub mod Closing
pub mod RunReport
pub mod Run
