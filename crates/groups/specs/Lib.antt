pub mod Highest
pub mod Small
pub mod Read
