pub mod Numbers
pub mod LevelTurns
pub mod SeriesTurns
pub mod Packet
pub mod Filling
