pub mod Written
pub mod Suffixes
pub mod Words
pub mod Peeling
pub mod Runs
pub mod Suffixing
pub mod Leaves
