pub mod Laws
pub mod Units
pub mod Codes
