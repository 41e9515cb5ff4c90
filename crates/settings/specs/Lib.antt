pub mod Settings
pub mod Refused
pub mod Chosen
