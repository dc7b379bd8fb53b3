pub mod Upheld
pub mod Starts
pub mod Turns
pub mod Sums
pub mod Places
pub mod AllCauses
