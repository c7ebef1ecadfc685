pub mod Terms
pub mod Seen
pub mod History
pub mod Runs
pub mod Order
