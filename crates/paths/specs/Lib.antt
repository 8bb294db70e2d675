pub mod Segment
pub mod WellFormed
pub mod Promises
