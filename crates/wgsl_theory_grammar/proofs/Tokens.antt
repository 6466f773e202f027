-- Template lists and the token list of every text.
pub mod Cuts
pub mod Bounds
pub mod Classes
pub mod Inside
pub mod Unique
pub mod Decided
pub mod Lists
pub mod CheckedRules
pub mod Refuted
pub mod Widths
pub mod Places
pub mod Bare
pub mod Symbols
