pub mod Ahead
pub mod Octets
pub mod PairLaws
pub mod PromiseLaws
pub mod RouteTheorems
pub mod Tight
