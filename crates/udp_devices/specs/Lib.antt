pub mod Address
pub mod Ends
pub mod Devices
pub mod Binding
pub mod Arrival
