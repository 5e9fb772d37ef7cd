pub mod Meet
pub mod Writing
