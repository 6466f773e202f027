pub mod Widths
pub mod Reached
pub mod Starts
pub mod LineStarts
pub mod SameLine
pub mod Back
pub mod Units
