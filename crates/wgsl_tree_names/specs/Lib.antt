pub mod Found
pub mod Attributed
