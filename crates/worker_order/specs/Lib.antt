pub mod Heard
pub mod Shares
pub mod Totals
pub mod Keeping
pub mod Returned
