pub mod Row
pub mod Place
pub mod Laws
pub use Rattle.byteorder.specs.Endian
