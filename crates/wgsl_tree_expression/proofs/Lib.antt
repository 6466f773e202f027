pub mod Chains
pub mod Views
mod Texts
mod Copies
mod Equalities
pub mod DerivedEqualities
