pub mod Numbers
pub mod Arrays
pub mod Guessed
pub mod Inverse
pub mod Words
pub mod Replaced
pub mod Unspaced
