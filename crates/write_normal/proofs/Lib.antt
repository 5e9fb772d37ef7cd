pub mod Forms
pub mod Copied
pub mod Pieces
pub mod Turns
pub mod Walks
pub mod Packet
