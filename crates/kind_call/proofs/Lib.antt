pub mod Scanning
pub mod Answering
