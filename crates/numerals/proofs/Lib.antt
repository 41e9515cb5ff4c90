pub mod Readings
pub mod Write
pub mod Heights
