pub mod Closing
pub mod Counting
pub mod Looking
pub mod Moves
pub mod Posting
pub mod Rows
