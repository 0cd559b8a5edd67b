pub mod Puts
pub mod Copies
pub mod Answers
pub mod Writes
