-- What a decision tells in numbers.
pub mod Told
