pub mod SetTurns
pub mod Openings
pub mod Closings
pub mod Packets
pub mod Parsing
pub mod Opened
pub mod Tried
