pub mod BodyLaws
pub mod UpdateLaws
pub mod Sections
pub mod Tight
