-- What a turn of either walk says.
pub mod Turns
