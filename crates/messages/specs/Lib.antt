pub mod Header
pub mod Written
pub mod Private
