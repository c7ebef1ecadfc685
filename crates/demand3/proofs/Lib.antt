pub mod Laws
pub mod Theorem
pub mod Consequence
pub mod Renumbered
