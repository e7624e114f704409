pub mod SpacedWords
pub mod Outcomes
pub mod Rests
pub mod LinesBelow
pub mod Listing
pub mod LeftBehind
pub mod WholeText
pub mod Summaries
