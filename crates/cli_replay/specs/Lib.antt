pub mod ArriveLine
pub mod Gathered
pub mod Names
pub mod StepLine
pub mod Report
pub mod Replay
pub mod ReplayParts
