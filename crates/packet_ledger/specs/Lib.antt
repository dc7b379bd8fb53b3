pub mod Amounts
pub mod Shown
pub mod Tokens
pub mod Share
