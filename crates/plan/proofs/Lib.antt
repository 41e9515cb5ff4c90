pub mod Laws
pub mod Added
pub mod Tells
pub mod Standing
pub mod Measuring
pub mod Spoken
pub mod Short
pub mod Front
