pub mod Copies
mod Lines
pub mod Equalities
