-- The faults, which of them is named, and their messages.
pub mod Kinds
pub mod Checked
pub mod NamedFault
pub mod Snippets
