-- The codings read back: lengths, tags and ids, from the number's side and from the bytes'.
pub mod Digits
pub mod Lengths
pub mod Oids
