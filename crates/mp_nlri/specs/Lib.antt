pub mod Value
pub mod Read
pub mod Write
pub mod WellFormed
