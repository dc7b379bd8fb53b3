pub mod Flow
pub mod Hash
pub mod Key
