pub mod Lines
pub mod Diffs
pub mod Matching
pub mod Printing
pub mod View
