-- The printed text of each tree.
pub mod Joining
pub mod Indentation
pub mod Operators
pub mod Expressions
pub mod Attributes
pub mod Declarations
pub mod Statements
pub mod Units
