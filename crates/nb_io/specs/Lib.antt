pub mod Faults
pub mod Kept
pub mod MemoryFiles
pub mod MemorySinks
pub mod Opened
pub mod Names
