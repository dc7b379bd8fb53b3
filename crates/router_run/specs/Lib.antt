pub mod BareWorkers
pub mod Wiring
pub mod Back
pub mod Promises
pub mod Run
pub mod Starting
pub mod Teams
pub mod Prepared
