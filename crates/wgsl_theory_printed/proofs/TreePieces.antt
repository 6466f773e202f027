-- The pieces of printed trees: they print them and have their tokens.
pub mod Printing
pub mod PiecesOfExpressions
pub mod PiecesOfAttributes
pub mod PiecesOfStatements
pub mod PiecesNodes
pub mod PiecesOfUnits
pub mod PrintedAlong
