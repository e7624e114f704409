pub mod Hosting
pub mod Answered
pub mod Verdict
pub mod Status
pub mod Replay
pub mod Generated
pub mod Command
pub mod Failures
