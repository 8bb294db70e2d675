pub mod Pair
pub mod Private
