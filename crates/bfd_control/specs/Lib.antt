pub mod Session
pub mod ControlPacket
pub mod Reception
pub mod Answer
pub mod Laws
pub mod Example
pub use Rattle.field_rows.specs.Row
pub use Rattle.field_rows.specs.Place
