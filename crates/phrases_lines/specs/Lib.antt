pub mod Program
pub mod Held
