pub mod Values
pub mod Opens
pub mod Parts
pub mod Runs
pub mod PartTurns
pub mod TargetTurns
