pub mod Elementary
pub mod Peeling
pub mod Run
pub mod Suffix
