pub mod Writing
pub mod Entries
pub mod Packs
pub mod Unsealed
