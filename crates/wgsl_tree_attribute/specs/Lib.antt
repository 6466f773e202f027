pub mod ViewNodes
pub mod View
pub mod VariantsNodes
pub mod Equality
