pub mod WordsLaws
pub mod FillLaws
pub mod PairLaws
pub mod Tight
