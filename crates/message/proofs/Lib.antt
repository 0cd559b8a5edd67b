pub mod Writing
pub mod Wordings
pub mod Calls
