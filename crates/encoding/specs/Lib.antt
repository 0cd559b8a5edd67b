pub mod Dynamic
pub mod Words
pub mod Values
pub mod Encoding
pub mod Judge
