pub mod Runs
pub mod Impostors
pub mod Compactor
