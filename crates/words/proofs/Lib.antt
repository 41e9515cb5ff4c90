pub mod Pieces
pub mod Parts
pub mod Counts
pub mod Tables
