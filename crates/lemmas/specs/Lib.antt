pub mod Iterate
pub mod All
