pub mod Answers
pub mod Left
pub mod Wrote
pub mod Asked
