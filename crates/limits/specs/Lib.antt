pub mod Fits
pub mod Rest
