pub mod Called
pub mod Tight
