-- What is promised of the definitions, for all inputs, in the user's words. proofs/demands has the proofs, under the same names.
pub mod Accepted
pub mod Demand1
pub mod Demand2
pub mod Kept
pub mod Demand3
pub mod Targets
pub mod Rows
pub mod Shows
pub mod Sizes
