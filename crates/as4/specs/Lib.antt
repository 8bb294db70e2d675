pub mod Standing
pub mod Merge
pub mod Promises
pub mod Private
