pub mod Text
pub mod HexLine
pub mod ArrivalContext
pub mod Counts
pub mod Lines
pub mod Told
