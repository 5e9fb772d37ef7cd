pub mod Going
pub mod Targets
