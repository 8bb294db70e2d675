pub mod Settings
pub mod Word
