pub mod Hmac
pub mod Pbkdf2
pub mod Example
