pub mod Ethernet
pub mod Arp
pub mod EtherTypes
pub mod Groups
