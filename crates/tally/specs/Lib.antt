pub mod Pieces
pub mod Going
pub mod Meet
pub mod Runs
