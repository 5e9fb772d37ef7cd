pub mod Normalising
