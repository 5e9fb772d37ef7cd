pub mod Cuts
pub mod Meet
