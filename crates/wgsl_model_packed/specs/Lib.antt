-- The definitions, in the order in which they are read.
pub mod Rules
pub mod JsonRules
pub mod Json
pub mod Printing
pub mod Expressions
pub mod Attributes
pub mod Statements
pub mod Units
