pub mod Forwarding
pub mod SameForwarder
pub mod ForwarderLaws
