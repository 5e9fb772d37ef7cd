-- Rows point at values, and show goes by the rows.
pub mod Point
pub mod Find
pub mod Fit
pub mod Own
