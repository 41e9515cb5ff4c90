pub mod Places
pub mod Laid
pub mod Stored
pub mod Numbered
pub mod ReadBack
