-- The vocabulary that every law uses: answers taken apart, tests, bytes, lists.
pub mod Answers
pub mod Bytes
pub mod Keys
pub mod Flats
pub mod Together
pub mod Shrinks
pub mod Changes
pub mod Firsts
