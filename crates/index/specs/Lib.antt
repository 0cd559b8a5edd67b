pub mod Indexes
pub mod Searches
