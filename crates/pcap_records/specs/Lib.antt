pub mod Form
pub mod Records
pub mod Fail
pub mod Capture
pub mod Reading
pub mod Writing
