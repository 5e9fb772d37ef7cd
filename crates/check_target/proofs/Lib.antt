pub mod Sums
pub mod LongTurns
pub mod TargetRecords
