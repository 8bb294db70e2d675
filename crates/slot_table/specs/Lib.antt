pub mod Line
pub mod Table
pub mod Private
