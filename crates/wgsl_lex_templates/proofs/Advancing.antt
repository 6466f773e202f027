-- What is left after each rule of expressions.
pub mod Rules
pub mod Walks
pub mod Repeats
pub mod Advances
pub mod Parts
pub mod Equations
pub mod Operands
pub mod Operators
pub mod Steps
pub mod Decided
