pub mod Responses
pub mod Receive
