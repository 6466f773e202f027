pub mod View
pub mod Kinds
pub mod VariantsNodes
pub mod Equality
