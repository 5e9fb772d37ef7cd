pub mod Editing
pub mod Writing
