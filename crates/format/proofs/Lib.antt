-- The laws of the definitions, a folder for each layer.
pub mod Words
pub mod Coding
pub mod Table
pub mod Reading
pub mod Sheets
pub mod Edits
pub mod Series
pub mod Rows
pub mod Bounds
pub mod Demands
mod Tables
