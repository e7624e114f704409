pub mod Same
pub mod Room
pub mod Leaving
pub mod Keeps
pub mod Rises
pub mod Order
pub mod Headers
pub mod Rows
