pub mod Scans
pub mod Outputs
