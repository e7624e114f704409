pub mod Window
pub mod Settings
