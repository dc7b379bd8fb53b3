pub mod Pool
pub mod Intake
pub mod Receiving
pub mod SameReceiver
pub mod ReceiverLaws
