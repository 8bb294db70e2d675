pub mod Asn
pub mod Aggregator
