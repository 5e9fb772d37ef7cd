pub mod Codings
pub mod Shortest
pub mod Fronts
