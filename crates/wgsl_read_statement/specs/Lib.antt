-- What the parts of rules that have functions of their own read.
pub mod Statements
pub mod Switches
