pub mod Returns
pub mod Walked
pub mod Stops
pub mod Coming
pub mod Visits
pub mod Outcomes
pub mod OneHopWalk
