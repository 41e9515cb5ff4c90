pub mod Tally
pub mod Layout
pub mod Sums
