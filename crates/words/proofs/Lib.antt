pub mod Caps
pub mod Words
