pub mod Reversed
pub mod Found
pub mod Views
pub mod Blocks
