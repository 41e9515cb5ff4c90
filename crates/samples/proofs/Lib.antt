pub mod NoSentence
pub mod Samples
