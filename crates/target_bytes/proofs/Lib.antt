pub mod Counts
pub mod Sizes
pub mod Storing
pub mod Stretches
pub mod Arounds
pub mod Changed
