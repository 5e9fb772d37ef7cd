pub mod Meet
pub mod Going
