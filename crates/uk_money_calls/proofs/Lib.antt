pub mod Texts
pub mod Entries
pub mod Theorem
