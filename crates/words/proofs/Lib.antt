pub mod FlagLaws
pub mod SettingsLaws
pub mod WordLaws
pub mod Tight
