-- Sheets: what is taken for a sheet is what is valid, and what packets say is.
pub mod Values
pub mod Targets
pub mod Sheets
pub mod Content
pub mod Normal
pub mod Same
