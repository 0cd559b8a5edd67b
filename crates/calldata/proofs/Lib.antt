pub mod Finding
pub mod Telling
pub mod Short
pub mod Judging
