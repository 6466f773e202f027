-- The definitions, in the order in which they are read.
pub mod Tokens
pub mod Trees
pub mod Grammar
pub mod Faults
pub mod Printed
pub mod SourceTrees
pub mod Program
