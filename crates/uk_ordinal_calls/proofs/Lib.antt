pub mod Admitted
pub mod Softness
pub mod Hyphened
pub mod OneWord
pub mod Spelled
pub mod Theorem
pub mod Read
