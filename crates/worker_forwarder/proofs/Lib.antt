pub mod ForwardingLemmas
