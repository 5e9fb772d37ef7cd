pub mod Bits
pub mod Parts
pub mod Clears
pub mod Gathers
pub mod Noted
