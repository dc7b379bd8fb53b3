pub mod Expiry
pub mod Mac
pub mod Beaconing
pub use Rattle.cmac_core.specs.Cmac
pub mod OneInput
pub mod Exact
