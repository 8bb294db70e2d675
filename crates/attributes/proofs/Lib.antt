pub mod AttributeLaws
pub mod FormedLaws
pub mod SearchTurn
pub mod Tight
pub mod SectionLaws
