pub mod Kinds
pub mod View
pub mod Printing
pub mod Places
