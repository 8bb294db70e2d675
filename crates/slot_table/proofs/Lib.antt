pub mod LineLaws
pub mod TableLaws
pub mod NumeralLaws
pub mod Growth
pub mod Tight
