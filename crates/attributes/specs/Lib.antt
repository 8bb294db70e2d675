pub mod Attribute
pub mod WellFormed
pub mod Promises
pub mod Private
