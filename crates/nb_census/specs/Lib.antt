pub mod Views
pub mod Kept
pub mod Shown
pub mod Tokens
pub mod Plain
