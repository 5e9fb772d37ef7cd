-- Reading: what is accepted is what is valid, for items, packs, series and packets.
pub mod Runs
pub mod Items
pub mod Packs
pub mod Entries
pub mod Seal
pub mod Packets
