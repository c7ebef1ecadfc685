pub mod Observed
pub mod Demands
