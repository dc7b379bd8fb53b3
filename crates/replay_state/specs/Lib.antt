pub mod Items
pub mod Causes
pub mod Outcomes
pub mod Ended
pub mod Kept
pub mod Arrivals
pub mod Sent
