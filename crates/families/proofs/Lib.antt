pub mod CopyLaws
pub mod FamilyLaws
pub mod OctetLaws
pub mod Tight
