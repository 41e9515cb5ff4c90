pub mod TallyCalls
pub mod History
pub mod Changes
pub mod Run
