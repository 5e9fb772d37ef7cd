pub mod Vals
pub mod Tolds
pub mod Meet
