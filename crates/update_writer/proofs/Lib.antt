pub mod BodyLaws
pub mod RoundTrip
pub mod Tight
