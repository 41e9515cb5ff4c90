pub mod Demand3
pub mod Numbers
pub mod Words
pub mod Apostrophes
pub mod Measuring
pub mod OneNumber
pub mod Tally
