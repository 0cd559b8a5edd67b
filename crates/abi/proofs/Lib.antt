pub mod Puts
pub mod Leaves
pub mod Walks
pub mod Nested
pub mod Lists
pub mod Whole
pub mod Calls
pub mod Going
