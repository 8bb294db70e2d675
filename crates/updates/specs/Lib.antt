pub mod Body
pub mod Update
