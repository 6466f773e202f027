pub mod View
pub mod VariantsNodes
pub mod Printed
pub mod Equality
