pub mod ClosedLists
pub mod Turns
pub mod Names
pub mod Severities
pub mod Directives
pub mod Hints
