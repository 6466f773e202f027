pub mod Keys
pub mod Values
pub mod Globs
pub mod Lines
pub mod Properties
pub mod Reading
pub mod View
