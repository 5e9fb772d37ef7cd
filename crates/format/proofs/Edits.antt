-- Edits: the result is valid, says the old sheet with those changes, keeps every other byte, and is refused by the rules alone.
pub mod Applied
pub mod Rules
pub mod Levels
pub mod Places
pub mod Results
pub mod Kept
pub mod Allowed
pub mod InTurn
