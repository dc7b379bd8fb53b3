pub mod Rule
pub mod Producer
pub mod Consumer
pub mod Pipe
pub mod Gathered
