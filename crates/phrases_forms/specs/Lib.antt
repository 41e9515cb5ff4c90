pub mod Line
pub mod Cuts
