pub mod Worker
pub mod WorkerIndex
pub mod Producers
