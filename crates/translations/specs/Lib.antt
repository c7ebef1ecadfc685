pub mod Fits
pub mod Fills
