pub mod Records
pub mod Meet
