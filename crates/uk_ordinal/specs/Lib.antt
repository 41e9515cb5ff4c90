pub mod Pool
pub mod OrdinalTables
pub mod Ordinal
pub mod DigitOrdinal
pub mod Year
