pub mod Meet
pub mod Shows
