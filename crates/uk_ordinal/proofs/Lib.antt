pub mod Listed
pub mod Tables
pub mod Words
pub mod Apostrophes
pub mod Compound
