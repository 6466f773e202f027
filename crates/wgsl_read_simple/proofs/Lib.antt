pub mod Binding
pub mod LeftSides
pub mod SimpleStatements
pub mod Made
pub mod Hints
pub mod Parts
