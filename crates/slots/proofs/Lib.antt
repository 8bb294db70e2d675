pub mod SlotLaws
pub mod BlockLaws
pub mod Tight
