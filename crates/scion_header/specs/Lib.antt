pub mod Host
pub mod Address
pub mod Header
pub mod Fault
pub mod Upper
