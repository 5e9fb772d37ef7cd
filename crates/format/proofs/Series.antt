-- A target added or dropped: the list laws, the records, the result, what it says, and what it keeps.
pub mod Moves
pub mod Rules
pub mod Records
pub mod Results
pub mod Small
pub mod Sheets
pub mod Kept
pub mod Back
