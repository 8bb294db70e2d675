pub mod Marks
pub mod Promises
