pub mod Fits
pub mod Steps
