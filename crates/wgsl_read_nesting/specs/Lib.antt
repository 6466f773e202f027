pub mod Nesting
pub mod Effects
pub mod Deeper
