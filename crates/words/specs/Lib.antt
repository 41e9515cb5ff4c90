pub mod Part
pub mod Extents
pub mod Moves
