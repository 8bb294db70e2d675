pub mod Encode
pub mod Promises
pub mod Private
