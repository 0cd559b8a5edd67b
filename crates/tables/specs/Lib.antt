pub mod Asked
pub mod Hex
