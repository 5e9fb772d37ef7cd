-- Refusals passed up, heads case by case, the records of a sheet, and the record that a walk keeps of what was there before.
pub mod Passed
pub mod Heads
pub mod Spans
pub mod SheetRuns
pub mod Before
