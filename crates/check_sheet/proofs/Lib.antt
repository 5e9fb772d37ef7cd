pub mod SetTurns
pub mod Sheeting
pub mod Sizings
