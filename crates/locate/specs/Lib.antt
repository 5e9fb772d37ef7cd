pub mod Meet
pub mod Promise
