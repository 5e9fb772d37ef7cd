pub mod Packs
pub mod Ids
