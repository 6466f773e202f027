pub mod View
pub mod VariantsNodes
pub mod Equality
pub mod Chains
