pub mod Limit
pub mod Behind
pub mod Quiet
pub mod Made
pub mod Answers
