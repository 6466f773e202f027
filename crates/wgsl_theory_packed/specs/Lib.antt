pub mod Shown
pub mod Fits
