pub mod Listed
pub mod Tables
pub mod Laws
pub mod Words
pub mod Apostrophes
pub mod Lent
pub mod Counted
