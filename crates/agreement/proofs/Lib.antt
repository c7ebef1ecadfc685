pub mod Fits
pub mod Fills
pub mod Found
pub mod Asked
pub mod Agreement
