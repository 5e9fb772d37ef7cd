pub mod Spots
pub mod Places
pub mod Series
