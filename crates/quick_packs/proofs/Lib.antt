pub mod Alikes
pub mod Models
pub mod Fresh
pub mod Passings
pub mod ToldPacks
