-- The definitions, in the order in which they are read.
pub mod View
pub mod InScope
pub mod Counts
pub mod Short
