pub mod Lists
pub mod Totals
pub mod Ticks
mod Owners
pub mod Placed
pub mod Growing
mod Calls
