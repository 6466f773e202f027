pub mod Views
pub mod BlockStatements
mod Copies
mod EmptyStatements
mod Lines
mod Equalities
mod EqualityNodes
