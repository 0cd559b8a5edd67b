pub mod Demand
pub mod Sheets
pub mod Signatures
pub mod Strips
pub mod Samples
pub mod Naming
