-- The trees without their empty items, and without their spans.
pub mod Changed
pub mod ChangedNodes
pub mod EmptyItems
pub mod Spans
pub mod SpansStatements
pub mod SpansUnits
