pub mod Tests
pub mod Listed
pub mod Tables
pub mod Stems
pub mod Deciders
pub mod Ordinals
pub mod Words
pub mod OneWord
