pub mod State
pub mod Answers
pub mod Switches
