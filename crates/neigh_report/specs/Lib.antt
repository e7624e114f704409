pub mod Spaced
pub mod Left
pub mod Summary
