-- The definitions, in the order in which they are read.
pub mod Spaces
pub mod Shortest
pub mod Shortened
pub mod Respelled
