pub mod Verdicts
mod Replays
mod GeneratedPlans
mod GeneratedRuns
mod Commands
mod Given
mod Hosting
mod Tasks
mod Placed
mod CallAnswers
mod Logs
mod Journals
mod InlineRuns
pub mod Steps
pub mod ScriptRuns
