pub mod Steps
pub mod Forms
pub mod Smalls
pub mod Turns
pub mod TargetTurns
pub mod Sheet
