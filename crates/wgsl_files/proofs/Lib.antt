pub mod Listings
pub mod Names
pub mod Runs
