pub mod Wording
pub mod Listing
pub mod Modifying
pub mod Stepwise
pub mod Wholes
