pub mod Write
pub mod Promises
