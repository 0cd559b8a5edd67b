pub mod Parts
pub mod Places
pub mod Walking
pub mod Searching
