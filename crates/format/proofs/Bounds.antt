-- How large the number and the place of a refusal can be.
pub mod Answers
pub mod Packets
pub mod Sheets
pub mod Targets
