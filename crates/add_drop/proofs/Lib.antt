pub mod Writing
pub mod Setting
pub mod Calling
