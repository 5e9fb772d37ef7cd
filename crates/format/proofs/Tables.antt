-- Tables that the checker computes: document 01's worked examples, and the points of reading that docs/DECISIONS.md decides.
mod Open
mod Starred
mod Readings
mod Boundaries
