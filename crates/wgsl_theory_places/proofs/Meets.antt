-- What happens at the tokens of a module is what its tree says.
pub mod Parts
pub mod Known
pub mod Ways
pub mod Brackets
pub mod Expressions
pub mod AttributeNames
pub mod Attributes
