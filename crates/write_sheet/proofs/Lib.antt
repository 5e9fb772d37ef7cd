pub mod Records
pub mod Turns
pub mod Smalls
pub mod Packet
pub mod Begun
