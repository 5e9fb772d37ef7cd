-- The laws of the codings as code reads them. `Rooms` and `Counts` are what callers need; the others serve the proofs of this crate.
pub mod Rooms
pub mod Lens
pub mod Oid
pub mod TheKey
pub mod Sums
pub mod Counts
pub mod Alikes
pub mod Tried
