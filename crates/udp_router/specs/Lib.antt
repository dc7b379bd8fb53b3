pub mod OverUdp
pub mod Run
