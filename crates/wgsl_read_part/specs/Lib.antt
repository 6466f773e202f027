-- What the parts of rules that have functions of their own read.
pub mod Heads
pub mod Clauses
pub mod Plain
