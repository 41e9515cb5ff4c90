pub mod Phrase
pub mod Plan
pub mod Speaks
pub mod Stands
