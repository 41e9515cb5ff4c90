pub mod Theorems
pub mod Read
