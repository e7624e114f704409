pub mod Checksum
pub mod Packet
pub mod Options
pub mod Checks
pub mod Message
pub mod Spelling
pub mod Fail
