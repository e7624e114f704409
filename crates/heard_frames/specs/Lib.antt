pub mod Content
pub mod Fields
pub mod Answers
pub mod Learning
pub mod Heard
