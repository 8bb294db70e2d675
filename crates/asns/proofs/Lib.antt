pub mod AsnLaws
pub mod AggregatorLaws
pub mod RoundTrip
pub mod Tight
