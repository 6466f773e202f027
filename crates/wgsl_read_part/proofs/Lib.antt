pub mod Heads
pub mod Selectors
pub mod Items
pub mod EndedStatements
pub mod TokenSpans
pub mod Hints
