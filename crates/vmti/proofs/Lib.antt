pub mod Bounds
pub mod Naming
pub mod Demand1
pub mod Demand2
pub mod Demand3
pub mod Targets
pub mod FromC
