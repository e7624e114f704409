pub mod Taken
pub mod Keeps
pub mod Kept
pub mod Verdicts
pub mod Hearing
pub mod Touched
pub mod Removing
pub mod Present
