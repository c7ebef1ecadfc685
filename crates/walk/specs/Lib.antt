pub mod Walk
pub mod Visits
