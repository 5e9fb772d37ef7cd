-- The demands, proved. Each file has the name of its statement in specs/demands.
pub mod Accepted
pub mod Demand1
pub mod Demand2
pub mod Demand3
pub mod Targets
pub mod Rows
pub mod Shows
pub mod Sizes
