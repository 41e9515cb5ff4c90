pub mod Known
pub mod Taking
pub mod Falls
pub mod Texts
pub mod Below
pub mod Sentences
pub mod Compared
