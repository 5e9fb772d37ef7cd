pub mod Glances
pub mod Alikes
pub mod Models
pub mod Passings
