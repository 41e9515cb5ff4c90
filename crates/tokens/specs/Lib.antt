pub mod Tokens
pub mod Turns
