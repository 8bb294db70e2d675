pub mod Index
pub mod Promises
pub mod Private
