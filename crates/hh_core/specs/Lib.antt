pub mod State
pub mod Step
pub mod Safe
pub mod Laws
pub mod Shown
pub mod Lock
pub mod Tries
