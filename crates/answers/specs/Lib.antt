pub mod Meet
pub mod Given
pub mod Calls
