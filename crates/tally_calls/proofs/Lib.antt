pub mod Decisions
pub mod Refused
pub mod Settling
pub mod ItemAmounts
pub mod Agreement
pub mod Replied
pub mod Theorem
