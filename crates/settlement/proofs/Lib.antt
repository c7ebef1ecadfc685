pub mod Packets
pub mod Calls
pub mod Listing
pub mod Host
