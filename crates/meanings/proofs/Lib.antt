pub mod Arms
pub mod Places
