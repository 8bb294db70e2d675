pub mod SegmentLaws
pub mod FormedLaws
pub mod RuleLaws
pub mod WordLaws
pub mod NumberTurn
pub mod PromiseLaws
pub mod PathTurn
pub mod Tight
