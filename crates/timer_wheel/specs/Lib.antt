pub mod Map
pub mod Places
pub mod Marked
pub mod Kept
