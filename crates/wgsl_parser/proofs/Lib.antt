pub mod Texts
pub mod Given
pub mod Spans
