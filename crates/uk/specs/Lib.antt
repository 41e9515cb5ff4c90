pub mod UkTables
pub mod Apostrophes
pub mod Rules
pub mod Ukrainian
pub mod Pool
