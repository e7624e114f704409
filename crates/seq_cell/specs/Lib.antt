pub mod Held
pub mod Tokens
pub mod Obtaining
