mod Digits
mod Marking
mod Slotted
mod Timing
mod Settling
mod Visiting
pub mod Leasts
