pub mod Ticks
pub mod Counted
pub mod Orders
pub mod Growing
pub mod Calls
