pub mod Eights
pub mod Beginnings
pub mod Skipping
pub mod Numbers
pub mod Reaching
pub mod Admitting
pub mod Characters
pub mod Remaining
