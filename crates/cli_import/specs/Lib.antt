pub mod Faults
pub mod Import
pub mod MasterKey
