pub mod Reaching
pub mod Lexed
pub mod Changes
pub mod Swaps
pub mod Rest
