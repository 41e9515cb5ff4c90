pub mod Said
pub mod Groups
