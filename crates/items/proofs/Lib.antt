pub mod Looks
pub mod Glances
pub mod Rows
pub mod Tests
