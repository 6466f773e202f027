-- The definitions, in the order in which they are read.
pub mod Hosts
pub mod Prints
pub mod Modules
