pub mod Words
pub mod Ones
pub mod Walk
pub mod Short
pub mod FirstFailed
pub mod Grammar
pub mod Written
