pub mod Leaving
pub mod Framed
pub mod Packing
pub mod Entries
pub mod Results
pub mod Given
