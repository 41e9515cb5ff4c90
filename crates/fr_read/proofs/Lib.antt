pub mod Splits
pub mod Known
pub mod Seeming
pub mod Below
pub mod Guesses
pub mod Bounds
pub mod Decided
pub mod Cases
