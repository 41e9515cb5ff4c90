pub mod Triples
pub mod Highest
pub mod Held
