mod Planned
pub mod Items
mod Merges
pub mod Orders
mod Participants
pub mod Owners
mod Bounds
pub mod ScriptLimits
pub mod ScriptBounds
pub mod FileBounds
pub mod FileOps
