-- `Framing` is what callers need; `Parts` serves the proofs of this crate.
pub mod Framing
pub mod Parts
