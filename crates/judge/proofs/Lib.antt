pub mod Parts
pub mod Saying
pub mod Lasting
pub mod Choosing
pub mod Diving
pub mod Joining
