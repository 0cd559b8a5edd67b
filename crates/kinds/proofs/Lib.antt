pub mod Logic
pub mod Decimal
pub mod Machine
pub mod Joined
pub mod Examples
pub mod Signatures
