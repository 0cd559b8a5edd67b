pub mod Texts
pub mod Parts
pub mod Encoded
pub mod Says
