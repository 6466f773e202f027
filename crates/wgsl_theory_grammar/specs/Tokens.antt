-- What refutes a template list.
pub mod Refuted
