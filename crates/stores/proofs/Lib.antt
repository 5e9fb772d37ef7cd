pub mod Stores
pub mod Copies
pub mod Shifts
pub mod Puts
