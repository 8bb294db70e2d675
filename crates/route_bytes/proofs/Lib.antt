pub mod EncodeLaws
pub mod PromiseLaws
pub mod RowLaws
pub mod Rows
pub mod Tight
