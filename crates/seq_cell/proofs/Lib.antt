pub mod Steps
pub mod Obtaining
