-- The first fault is named, and each outcome of the reader is true.
pub mod Anchors
pub mod NotAfter
pub mod First
pub mod Outcomes
pub mod Named
pub mod Guards
