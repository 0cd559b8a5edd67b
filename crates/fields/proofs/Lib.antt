pub mod Spots
pub mod Ends
pub mod Begins
pub mod Growing
pub mod LeafFields
pub mod Naming
pub mod Family
