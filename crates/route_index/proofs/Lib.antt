pub mod SkipLaws
pub mod IndexLaws
pub mod KnownLaws
pub mod AskLaws
pub mod OwnLaws
pub mod Tight
