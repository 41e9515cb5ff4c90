pub mod Words
pub mod Cutting
