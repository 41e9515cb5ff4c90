pub mod Lines
pub mod Laws
pub mod Blocks
