pub mod Refusals
pub mod Code
pub mod Alike
