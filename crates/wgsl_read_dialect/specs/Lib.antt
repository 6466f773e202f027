pub mod Dialects
pub mod Steps
pub mod Following
pub mod Weights
pub mod Symbols
pub mod View
pub mod Work
pub mod Recognized
