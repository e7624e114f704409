pub mod Parts
pub mod Packets
pub mod Readings
pub mod Learnt
