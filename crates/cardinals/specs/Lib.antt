pub mod Lexicon
pub mod Cardinal
pub mod Grammar
pub mod Listed
