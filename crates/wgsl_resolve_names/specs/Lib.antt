pub mod Linked
pub mod Known
pub mod Found
