pub mod Digits
pub mod Numerals
