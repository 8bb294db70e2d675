pub mod ClearLaws
pub mod MarkLaws
pub mod Tight
