pub mod Limits
pub mod Hexing
