pub mod Read
pub mod Theorem
