pub mod NounTables
pub mod Nouns
pub mod Currencies
pub mod Codes
pub mod Money
pub mod MoneyGrammar
pub mod Rows
