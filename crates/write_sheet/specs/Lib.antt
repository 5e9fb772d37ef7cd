pub mod Meet
pub mod Quick
