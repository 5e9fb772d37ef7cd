pub mod Passing
pub mod Values
pub mod Showing
pub mod Promised
pub mod Results
