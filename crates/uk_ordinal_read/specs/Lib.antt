pub mod LastWord
pub mod Guess
pub mod Promise
