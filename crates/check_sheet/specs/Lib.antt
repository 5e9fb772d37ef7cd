pub mod Sheets
pub mod Meet
pub mod Sets
