pub mod Crew
pub mod Room
pub mod Parting
