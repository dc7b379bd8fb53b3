pub mod NewEnds
pub mod NewBands
