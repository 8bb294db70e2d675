pub mod Promises
pub mod Pair
pub mod Private
