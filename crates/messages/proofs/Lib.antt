pub mod HeaderLaws
pub mod WrittenLaws
pub mod Framing
pub mod EditionLaws
pub mod Tight
