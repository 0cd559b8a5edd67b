pub mod Caps
pub mod Reaches
