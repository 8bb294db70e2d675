pub mod ValueLaws
pub mod ReadLaws
pub mod WriteLaws
pub mod MpTheorems
pub mod WriteTheorems
pub mod Tight
