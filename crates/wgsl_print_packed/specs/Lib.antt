pub mod Notations
pub mod Escapes
pub mod Printing
