pub mod Steps
pub mod Decides
pub mod Decided
