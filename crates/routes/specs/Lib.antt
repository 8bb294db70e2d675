pub mod Prefix
pub mod WellFormed
pub mod List
pub mod ByTable
pub mod Promises
pub mod Private
