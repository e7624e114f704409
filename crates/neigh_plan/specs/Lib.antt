pub mod Merging
pub mod Inline
pub mod Files
pub mod Planning
