-- The definitions, in the order in which they are read.
pub mod Spelled
