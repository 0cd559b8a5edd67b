pub mod Leaves
pub mod Running
