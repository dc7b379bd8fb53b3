pub mod Datagram
pub mod Links
pub mod Rules
pub mod Causes
pub mod Laws
pub mod Ports
pub mod Example
