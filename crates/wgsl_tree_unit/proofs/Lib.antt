mod Texts
mod FullDeclarations
mod Shown
pub mod Equalities
