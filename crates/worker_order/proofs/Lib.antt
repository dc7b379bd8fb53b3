pub mod Shares
pub mod Hearing
pub mod Keeping
pub mod Totals
pub mod Pairs
pub mod Returned
