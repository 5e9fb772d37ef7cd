pub mod Notes
pub mod Parts
pub mod Blocks
