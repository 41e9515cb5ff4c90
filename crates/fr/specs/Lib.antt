pub mod FrTables
pub mod Rules
pub mod Ordinal
pub mod Grammar
pub mod Pool
pub mod Placed
