pub mod Bytes
pub mod Decimal
pub mod Kind
pub mod Joined
pub mod Signatures
