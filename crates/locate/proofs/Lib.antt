pub mod Locating
pub mod Tabled
pub mod Callers
pub mod Promised
