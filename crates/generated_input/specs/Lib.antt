pub mod Draws
pub mod Heard
pub mod Sent
pub mod Files
pub mod Laws
