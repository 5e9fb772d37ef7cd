pub mod Glances
pub mod Looks
pub mod Beyond
