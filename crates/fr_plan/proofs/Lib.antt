pub mod Appends
pub mod Cases
pub mod Endings
