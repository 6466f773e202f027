pub mod Sources
pub mod Iterators
pub mod Spans
