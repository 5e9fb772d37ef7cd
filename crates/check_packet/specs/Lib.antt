pub mod Checks
pub mod Meet
pub mod Sets
