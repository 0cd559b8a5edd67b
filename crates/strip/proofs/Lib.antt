pub mod Lines
pub mod Scanning
