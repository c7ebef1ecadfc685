pub mod Numerals
pub mod Values
pub mod Pairs
pub mod Writing
pub mod HexWriting
