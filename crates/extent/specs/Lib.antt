pub mod Walks
pub mod Extents
