pub mod Family
pub mod Octets
pub mod Private
