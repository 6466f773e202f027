pub mod Lists
pub mod Kept
pub mod Written
pub mod Checked
pub mod Found
