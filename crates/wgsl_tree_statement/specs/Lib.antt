pub mod VariantsNodes
pub mod View
